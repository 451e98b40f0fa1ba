pub mod LineLaws
pub mod PutLaws
pub mod SizeLaws
pub mod PartLaws

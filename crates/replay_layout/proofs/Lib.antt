pub mod RecordLaws
mod SizeLaws

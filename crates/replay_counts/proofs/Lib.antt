pub mod CountLaws
pub mod ReadLaws
pub mod SumLaws

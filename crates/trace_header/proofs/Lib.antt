pub mod OpenLaws
pub mod SameBytes

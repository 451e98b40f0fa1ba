pub mod Texts
pub mod RowsHold
pub mod Printed

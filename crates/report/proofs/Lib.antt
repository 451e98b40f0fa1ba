pub mod TrailLaws
pub mod PairIndex
pub mod LengthLaws
pub mod FiguresHold
pub mod ReportLaws
pub mod RowsHold

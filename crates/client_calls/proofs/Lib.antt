pub mod Written
pub mod Numbers
pub mod ObjectsHold
pub mod MaxRecordHolds
pub mod MaxLineHolds
pub mod FiguresHold
pub mod FromC

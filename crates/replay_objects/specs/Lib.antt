pub mod ObjectAnswers
pub mod RegisterAnswers

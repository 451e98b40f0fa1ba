mod FitnessLaws
pub mod RoundingLaws

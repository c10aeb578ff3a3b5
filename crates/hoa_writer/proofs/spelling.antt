-- How tokens are spelled.
pub mod ConditionsSpelled
pub mod LabelsSpelled
pub mod PhraseDepths
pub mod SpelledOut
pub mod WordsSpelled

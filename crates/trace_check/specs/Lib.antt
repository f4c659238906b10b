pub mod Document
pub mod Dialogues
pub mod Laws
pub mod Loop
pub mod Texts
pub mod Verdicts
pub mod LastQuestion
pub mod QuestionText

pub mod ExecLemmas
pub mod FaultLemmas
pub mod AnswerLemmas
pub mod ProgramLemmas
pub mod RunLemmas
pub mod TokenLemmas
pub mod FrontLemmas
pub mod FrontAnswers

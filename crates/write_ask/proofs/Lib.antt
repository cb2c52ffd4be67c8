pub mod HouseQuestionsLaws
pub mod FaultLaws

pub mod PlanLaws
pub mod LimitLaws
pub mod PotentialLaws
pub mod QuestionLaws
pub mod CarriedLaws
pub mod LoaderLaws
pub mod WrittenLaws

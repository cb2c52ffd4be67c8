pub mod HouseQuestions

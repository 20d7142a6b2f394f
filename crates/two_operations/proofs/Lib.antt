pub mod InSteps

mod Causes
mod NotNil
mod SaidSteps

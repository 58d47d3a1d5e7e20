pub mod GradeText

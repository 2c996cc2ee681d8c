-- Laws of the decision and of the explanation's rows: `Agree` held and restricted in words, `Decision` the verdict in words, `Granted` and
-- `Denied` the rows, `Cause` why a right is not permitted, `Rows` the rows of a verdict, `Plain` the verdict over chains of assignments, `Answers` the explanation's answer,
-- `Alike` containments that say the same, `ByIndex` the decision from the index;
-- `Lowest` and `Table` are what these rest on.
pub mod Lowest
pub mod Table
pub mod Agree
pub mod Decision
pub mod Granted
pub mod Denied
pub mod Cause
pub mod Rows
pub mod Plain
pub mod Answers
pub mod Alike
pub mod ByIndex

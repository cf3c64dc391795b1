pub mod RowTurns
pub mod ReadRow
pub mod WholeTurns

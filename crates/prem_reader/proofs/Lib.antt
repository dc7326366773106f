pub mod ExpressionLemmas
pub mod StatementLemmas

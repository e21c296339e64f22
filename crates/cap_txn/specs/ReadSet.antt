-- What a transaction saw: its base's database, its footprint, and its calls with their answers.
use Rattle.std.specs.Prelude.{List}
use Rattle.cap_database.specs.Tables.{Tables}
use Rattle.cap_txn.specs.declared.item.Item.{Item}
use Rattle.cap_txn.specs.declared.answered_call.AnsweredCall.{AnsweredCall}

pub record ReadSetState (A : Type 0) : Type 0 where
  pub database : Tables A
  pub footprint : List (Item A)
  pub trace : List (AnsweredCall A)

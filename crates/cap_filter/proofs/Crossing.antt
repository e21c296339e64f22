-- Filters go from one thread to another where their allocator does.
use denote.RattleType.{RattleType}
use denote.Param.Send.{IsSend, IsSync, Frees, sendable}
use Rattle.std.proofs.CrossingOver.{crosses}
use Rattle.std.specs.declared.alloc.Allocator as allocator
use Rattle.cap_filter.proofs.filter.Filter.TheLaws.TheKnot.{both_send-Filter, both_sync-Filter}
use Rattle.cap_filter.proofs.word.Word.TheSendSync as word
use Rattle.cap_filter.specs.contracts.table_filter.TableFilter as TableFilter

module _ (A : RattleType) (a : allocator.Ghosts A.Denot) (al : IsSend A) (ay : IsSync A) (frees : Frees a a.dealloc_token) where
  pub filter_send : IsSend (TableFilter.the_row A a)
  filter_send = search (both_send-Filter, word.the_send, word.the_sync, sendable, crosses) depth 20

  pub filter_sync : IsSync (TableFilter.the_row A a)
  filter_sync = search (both_sync-Filter, word.the_send, word.the_sync, sendable, crosses) depth 20

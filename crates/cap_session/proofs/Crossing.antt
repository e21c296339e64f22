-- Sessions go from one thread to another where their allocator does.
use denote.RattleType.{RattleType}
use denote.Param.Send.{IsSend, IsSync, Frees, sendable}
use Rattle.std.proofs.CrossingOver.{crosses}
use Rattle.std.specs.declared.alloc.Allocator as allocator
use Rattle.std.specs.declared.clone.Clone as clone
use Rattle.std.specs.declared.cmp.PartialEq as equality
use Rattle.std.specs.declared.hash.Hash as hashes
use Rattle.std.specs.declared.hash.BuildHasher as builds
use Rattle.std.specs.declared.hash.Hasher as hasher
use Rattle.std.specs.contracts.hash.BuildHasherDefault as BuildHasherDefault
use Rattle.std.specs.contracts.hash.FoldHasher as FoldHasher
use Rattle.indexmap.specs.contracts.map.IndexMap as IndexMap
use Rattle.indexmap.specs.contracts.columns.Columns as Columns
use Rattle.indexmap.specs.contracts.index_table.IndexTable as IndexTable
use Rattle.cap_value.specs.declared.memory.AllocHandle as handle
use Rattle.cap_value.proofs.name.Name.TheSendSync as name
use Rattle.cap_row.proofs.key.Key.TheSendSync as key
use Rattle.cap_tree.proofs.Crossing.{tree_send, tree_sync}
use Rattle.cap_filter.proofs.Crossing.{filter_send, filter_sync}
use Rattle.cap_session.proofs.record.Record.TheSendSync as record_
use Rattle.cap_session.specs.contracts.records.Records as Records
use Rattle.cap_session.specs.contracts.session.Session as Session
use Rattle.cap_session.specs.contracts.sessions.Sessions as Sessions
use Rattle.cap_row.specs.contracts.key.Key as Key
use Rattle.cap_session.specs.contracts.record.Record as Record
use denote.Struct.Tuple.{Tuple}
use Rattle.std.proofs.Common.{◌∷◌, []}

module _ (A : RattleType) (a : allocator.Ghosts A.Denot) (al : IsSend A) (ay : IsSync A) (frees : Frees a a.dealloc_token) where
  table_send : IsSend (IndexTable.the_row A a)
  table_send = search (sendable, crosses) depth 40

  table_sync : IsSync (IndexTable.the_row A a)
  table_sync = search (sendable, crosses) depth 40

  module _ (K V : RattleType) where
    columns_send : IsSend K → IsSend V → IsSend (Columns.the_row K V A a)
    columns_send ks vs = search (sendable, crosses) depth 40

    columns_sync : IsSync K → IsSync V → IsSync (Columns.the_row K V A a)
    columns_sync ks vs = search (sendable, crosses) depth 40

    module _ (S H : RattleType) (e : equality.Ghosts K.Denot) (k : hashes.Ghosts K.Denot) (b : builds.Ghosts S.Denot H.Denot) (r : hasher.Ghosts H.Denot) where
      map_send : IsSend K → IsSend V → IsSend S → IsSend (IndexMap.the_row K V S A H e k b r a)
      map_send ks vs ss = search (columns_send, table_send, sendable) depth 40

      map_sync : IsSync K → IsSync V → IsSync S → IsSync (IndexMap.the_row K V S A H e k b r a)
      map_sync ks vs ss = search (columns_sync, table_sync, sendable) depth 40

module _ (A : RattleType) (h : handle.Ghosts A.Denot) (a : allocator.Ghosts A.Denot) (c : clone.Ghosts A.Denot)
    (al : IsSend A) (ay : IsSync A) (frees : Frees a a.dealloc_token) where
  pair_send : IsSend (Tuple (Key.the_row A a ∷ Record.the_row A a ∷ []))
  pair_send = search (key.the_send, record_.the_send, sendable) depth 20

  pair_sync : IsSync (Tuple (Key.the_row A a ∷ Record.the_row A a ∷ []))
  pair_sync = search (key.the_sync, record_.the_sync, sendable) depth 20

  records_send : IsSend (Records.the_row A h a c)
  records_send = search (pair_send, tree_send, key.the_send, key.the_sync, record_.the_send, record_.the_sync, sendable) depth 20

  records_sync : IsSync (Records.the_row A h a c)
  records_sync = search (pair_sync, tree_sync, key.the_send, key.the_sync, record_.the_send, record_.the_sync, sendable) depth 20

  fold_send : IsSend (BuildHasherDefault.the_row FoldHasher.the_row)
  fold_send = search sendable depth 20

  fold_sync : IsSync (BuildHasherDefault.the_row FoldHasher.the_row)
  fold_sync = search sendable depth 20

  pub session_send : IsSend (Session.the_row A h a c)
  session_send = search (fold_send, records_send, map_send, name.the_send, filter_send, sendable, crosses) depth 60 fits 100000

  pub session_sync : IsSync (Session.the_row A h a c)
  session_sync = search (fold_sync, records_sync, map_sync, name.the_sync, filter_sync, sendable, crosses) depth 60 fits 100000

  pub sessions_send : IsSend (Sessions.the_row A h a c)
  sessions_send = search (session_send, sendable, crosses) depth 20

  pub sessions_sync : IsSync (Sessions.the_row A h a c)
  sessions_sync = search (session_sync, sendable, crosses) depth 20

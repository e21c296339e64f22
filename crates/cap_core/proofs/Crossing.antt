-- The sequential server, its commands and its replies go from one thread to another where their allocator does.
use denote.RattleType.{RattleType}
use denote.Enum.Enum.{Enum}
use denote.Enum.Declared.{shape, variants}
use denote.Param.Send.{EachSend, EachSync, IsSend, IsSync, Frees, enum_send, enum_sync, recorded_send, recorded_sync, sendable}
use Rattle.std.proofs.CrossingOver.{crosses}
use Rattle.std.specs.declared.alloc.Allocator as allocator
use Rattle.std.specs.declared.clone.Clone as clone
use Rattle.cap_value.specs.declared.memory.AllocHandle as handle
use Rattle.cap_value.proofs.name.Name.TheSendSync as name
use Rattle.cap_value.proofs.refusal.Refusal.TheSendSync as refusal
use Rattle.cap_row.proofs.schema.Schema.TheSendSync as schema
use Rattle.cap_tree.proofs.Crossing.{tree_send, tree_sync}
use Rattle.cap_database.proofs.Crossing.{database_send, database_sync, snapshot_send, snapshot_sync}
use Rattle.cap_txn.proofs.Crossing.{batch_send, batch_sync}
use Rattle.cap_filter.proofs.Crossing.{filter_send, filter_sync}
use Rattle.cap_session.proofs.Crossing.{session_send, session_sync, sessions_send, sessions_sync}
use Rattle.cap_session.specs.contracts.session_change.SessionChange as SessionChange
use Rattle.cap_codec.proofs.read.Contents.TheSendSync as contents
use Rattle.cap_apply.proofs.policy.Policy.TheSendSync as policy
use Rattle.cap_apply.proofs.report.Report.TheSendSync as report
use Rattle.cap_core.proofs.quiet.QuietSessions.TheSendSync as quiet
use Rattle.cap_core.specs.contracts.capture.Capture as Capture
use Rattle.cap_core.specs.contracts.server.Core as Core
use Rattle.cap_core.specs.contracts.command.Command as Command
use Rattle.cap_core.specs.contracts.session_command.SessionCommand as SessionCommand
use Rattle.cap_core.specs.contracts.listed_session.ListedSession as ListedSession
use Rattle.cap_core.specs.contracts.listed_table.ListedTable as ListedTable
use Rattle.cap_core.specs.contracts.names.NameList as NameList
use Rattle.cap_core.specs.contracts.reply.Reply as Reply
use Rattle.cap_core.specs.contracts.session_list.SessionList as SessionList
use Rattle.cap_core.specs.contracts.table_list.TableList as TableList

ruleset sends = (name.the_send, schema.the_send, batch_send, contents.the_field_send, policy.the_field_send, quiet.the_send, sendable)

ruleset syncs = (name.the_sync, schema.the_sync, batch_sync, contents.the_field_sync, policy.the_field_sync, quiet.the_sync, sendable)

module _ (A : RattleType) (h : handle.Ghosts A.Denot) (a : allocator.Ghosts A.Denot) (c : clone.Ghosts A.Denot)
    (al : IsSend A) (ay : IsSync A) (frees : Frees a a.dealloc_token) where
  pub core_send : IsSend (Core.the_row A h a c)
  core_send = search (database_send, database_sync, tree_send, name.the_send, name.the_sync, sessions_send, sendable) depth 40 fits 100000

  pub core_sync : IsSync (Core.the_row A h a c)
  core_sync = search (database_send, database_sync, tree_sync, name.the_send, name.the_sync, sessions_sync, sendable) depth 40 fits 100000

  capture_send : IsSend (Capture.the_row A h a c)
  capture_send = search (database_send, session_send, sendable) depth 40 fits 100000

  capture_sync : IsSync (Capture.the_row A h a c)
  capture_sync = search (database_sync, session_sync, sendable) depth 40 fits 100000

  change_send : IsSend (SessionChange.the_field A a).row
  change_send = enum_send (shape (SessionChange.the_type A a)) (search (filter_send, sendable) depth 40 fits 100000)

  change_sync : IsSync (SessionChange.the_field A a).row
  change_sync = enum_sync (shape (SessionChange.the_type A a)) (search (filter_sync, sendable) depth 40 fits 100000)

  told_send : IsSend (SessionCommand.the_field A a).row
  told_send = enum_send (shape (SessionCommand.the_type A a)) (search (name.the_send, change_send, sendable) depth 40 fits 100000)

  told_sync : IsSync (SessionCommand.the_field A a).row
  told_sync = enum_sync (shape (SessionCommand.the_type A a)) (search (name.the_sync, change_sync, sendable) depth 40 fits 100000)

  variants_send : EachSend (variants (Command.the_type A h a c))
  variants_send = search (told_send, sends) depth 60 fits 100000

  pub command_send : IsSend (Command.the_row A h a c)
  command_send = let O = Command.the_type A h a c in recorded_send (Enum (shape O)) O.D O.to O.to_one (enum_send (shape O) variants_send)

  variants_sync : EachSync (variants (Command.the_type A h a c))
  variants_sync = search (told_sync, syncs) depth 60 fits 100000

  pub command_sync : IsSync (Command.the_row A h a c)
  command_sync = let O = Command.the_type A h a c in recorded_sync (Enum (shape O)) O.D O.to O.to_one (enum_sync (shape O) variants_sync)

  -- the same where commands are a field of another type
  pub command_field_send : IsSend (Command.the_field A h a c).row
  command_field_send = enum_send (shape (Command.the_type A h a c)) variants_send

  pub command_field_sync : IsSync (Command.the_field A h a c).row
  command_field_sync = enum_sync (shape (Command.the_type A h a c)) variants_sync

  names_send : IsSend (NameList.the_row A a)
  names_send = search (name.the_send, sendable, crosses) depth 20

  names_sync : IsSync (NameList.the_row A a)
  names_sync = search (name.the_sync, sendable, crosses) depth 20

  listed_send : IsSend (ListedSession.the_row A a)
  listed_send = search (names_send, sendable) depth 20

  listed_sync : IsSync (ListedSession.the_row A a)
  listed_sync = search (names_sync, sendable) depth 20

  sessions_listed_send : IsSend (SessionList.the_row A a)
  sessions_listed_send = search (listed_send, sendable, crosses) depth 20

  sessions_listed_sync : IsSync (SessionList.the_row A a)
  sessions_listed_sync = search (listed_sync, sendable, crosses) depth 20

  listed_table_send : IsSend (ListedTable.the_row A a)
  listed_table_send = search (name.the_send, schema.the_send, sendable) depth 20

  listed_table_sync : IsSync (ListedTable.the_row A a)
  listed_table_sync = search (name.the_sync, schema.the_sync, sendable) depth 20

  tables_listed_send : IsSend (TableList.the_row A a)
  tables_listed_send = search (listed_table_send, sendable, crosses) depth 20

  tables_listed_sync : IsSync (TableList.the_row A a)
  tables_listed_sync = search (listed_table_sync, sendable, crosses) depth 20

  pub reply_send : IsSend (Reply.the_row A h a c)
  reply_send = let O = Reply.the_type A h a c in recorded_send (Enum (shape O)) O.D O.to O.to_one (enum_send (shape O)
      (search (report.the_send, snapshot_send, capture_send, names_send, sessions_listed_send, tables_listed_send, refusal.the_field_send, sendable) depth 60 fits 100000))

  pub reply_sync : IsSync (Reply.the_row A h a c)
  reply_sync = let O = Reply.the_type A h a c in recorded_sync (Enum (shape O)) O.D O.to O.to_one (enum_sync (shape O)
      (search (report.the_sync, snapshot_sync, capture_sync, names_sync, sessions_listed_sync, tables_listed_sync, refusal.the_field_sync, sendable) depth 60 fits 100000))

-- What a command is refused that is known without memory: it is the reply also where memory is out.
use Rattle.std.specs.Prelude.{◌≡◌, ⊤, Option, Some, None, Result, IfSome, List, [], ◌∷◌, MatchResult}
use Rattle.std.specs.Option.{option_map}
use Rattle.cap_value.specs.Memory.{MatchFault}
use Rattle.cap_value.specs.declared.memory.Fault.{Fault}
use Rattle.cap_value.specs.declared.refusal.Refusal.{Refusal}
use Rattle.cap_database.specs.Operation.{refused_step}
use Rattle.cap_database.specs.Tables.{Tables}
use Rattle.cap_database.specs.declared.op.Op.{Op}
use Rattle.cap_txn.specs.Stale.{stale}
use Rattle.cap_core.specs.declared.command.Command.{Command}
use Rattle.cap_core.specs.declared.command.Command.TheVariants.{Commit, Apply}
use Rattle.cap_core.specs.declared.reply.Reply.{Reply}
use Rattle.cap_core.specs.declared.reply.Reply.TheVariants.{Refused}
use Rattle.cap_core.specs.Answer.{State, answer, refused_quiet, snapshot_of}
use Rattle.cap_core.specs.Outcome.{Refused as Why}

-- a refusal of a whole command
abbrev pub whole : Option Refusal → Option Why
whole why = option_map (λ why. (None, why)) why

module _ {A : Type 0} where
  -- the refusal that a reply is, if it is one
  abbrev pub refusal_in : Reply A → Option Why
  refusal_in (Refused at why) = Some (at, why)
  refusal_in _ = None

  -- of a batch's operations the first is tried on the tables as they are; the others need what it leaves
  abbrev pub refused_op : Tables A → List (Op A) → Option Why
  refused_op tables [] = None
  refused_op tables (op ∷ ops) = option_map (λ why. (Some 0, why)) (refused_step tables op)

  abbrev pub refused_batch : Option Refusal → Tables A → List (Op A) → Option Why
  refused_batch (Some why) tables ops = Some (None, why)
  refused_batch None tables ops = refused_op tables ops

  -- A batch is refused where it is out of date, and then where its first operation is refused before memory
  -- is needed. An application is refused where a session that it leaves as it is is not live; conflicts of
  -- its blob are found as it is applied, which needs memory. Each refusal of any other command is known
  -- without it.
  abbrev pub refused_first : State A → Command A → Option Why
  refused_first state (Commit batch) =
      refused_batch (stale batch.base batch.reads (snapshot_of state)) state.main batch.ops
  refused_first state (Apply blob policy quiet) = whole (refused_quiet state.sessions quiet)
  refused_first state command = refusal_in (answer state command)

  -- where a refusal is known without memory, it is the reply, unless a hook refuses the command
  abbrev pub RepliesFirst : {E : Type 0} → Option Why → Result (Reply A) (Fault E) → Type 0
  RepliesFirst known result =
      IfSome known (λ why. MatchResult result (λ reply. reply ≡ Refused why.0 why.1)
      (λ fault. MatchFault fault ⊥ (λ refused. ⊤)))

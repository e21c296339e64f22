-- The sessions after a history, each with its flags, its rule, and the first image and indirect flag of each
-- touched key.
use Rattle.std.specs.Prelude.{ℕ, Bool, List, map, filter}
use Rattle.std.specs.List.{list_all}
use Rattle.std.specs.Ordering.{eq_by_cmp}
use Rattle.std.specs.FinMap as map_of
use Rattle.cap_row.specs.Fields.{Fields}
use Rattle.cap_row.specs.Key.{fields_cmp}
use Rattle.cap_session.specs.Records.{Records}
use Rattle.cap_session.specs.Session.{SessionState}
use Rattle.cap_session.specs.Sessions.{NumberedSessions}
use Rattle.cap_core.specs.Flags.{is_enabled, is_indirect, live_sessions, rule}
use Rattle.cap_core.specs.Past.{Past}
use Rattle.cap_core.specs.Touch.{Touch, attach_list, touches, touches_of}

module _ {A : Type 0} where
  -- the indirect flag of a key: each touch of it was indirect
  abbrev pub all_indirect : List (Fields A × Touch A) → Fields A → Bool
  all_indirect touches key =
      list_all (λ touch. touch.1.indirect) (filter (λ touch. eq_by_cmp fields_cmp key touch.0) touches)

  -- the touched keys in their order, each with the image of its first touch and its indirect flag
  unfoldable pub records_of : List (Fields A × Touch A) → Records A
  records_of touches =
      map (λ first. (first.0, record { image = first.1.image; indirect = all_indirect touches first.0 }))
      (map_of.entries (map_of.from_entries {R = fields_cmp} touches))

  -- what a session has
  abbrev pub session_of : Past A → ℕ → SessionState A
  session_of past session = record {
    enabled = is_enabled session past;
    indirect = is_indirect session past;
    rule = rule session past;
    tables =
        map (λ name. (name, records_of (touches_of name (touches session past)))) (attach_list session past);
  }

  -- the live sessions under their numbers
  abbrev pub sessions : Past A → NumberedSessions A
  sessions past = map (λ number. (number, session_of past number)) (live_sessions past)

use Rattle.std.proofs.Common.{◌≡◌, false, List, rules, subst, sym, ℕ}
use Rattle.std.proofs.KnownBytes.{Appends-nil}
use Rattle.std.specs.Io.KnownBytes.{Appends}
use Rattle.std.specs.Prelude.{OnOk}
use Rattle.cap_show.specs.Code.Equations.{is_empty}
use Rattle.cap_show.specs.Sql.{equations, set_text}
use Rattle.cap_show.proofs.TextLemmas.{left_out, stands}
use Rattle.cap_show.proofs.sql.write_update.Goals as goal

pub returns-then-modifies_nothing : goal.returns-then-modifies_nothing
returns-then-modifies_nothing g c =
    let contents = g.W.Write.contents c.args.output.now in
    let texts = equations false 0 c.args.schema.now c.args.new.now in
    let none : c.modifies_nothing.result ≡ is_empty texts = search rules in
    subst (Appends contents contents) (sym (left_out texts _ c.modifies_nothing.result c.if-modifies_nothing.true none)) (Appends-nil contents)

pub returns : goal.returns
returns g c =
    let contents = g.W.Write.contents in
    let texts = equations false 0 c.args.schema.now c.args.new.now in
    let statement = set_text c.args.table.now c.args.schema.now c.args.key.now c.args.new.now in
    let none : c.modifies_nothing.result ≡ is_empty texts = search rules in
    let P : List ℕ → Type 0 = λ text. OnOk c.write_set.result (Appends (contents c.args.output.now) (contents c.write_set.new.output) text) in
    subst P (stands texts statement c.modifies_nothing.result c.if-modifies_nothing.false none) c.write_set.ensures

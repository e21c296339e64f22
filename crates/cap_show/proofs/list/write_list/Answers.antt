use Rattle.std.proofs.Common.{length, ap, ◌∙◌}
use Rattle.std.specs.Prelude.{◌==◌}
use Rattle.cap_show.proofs.TextLemmas.{headed, on_ok_more}
use Rattle.cap_show.proofs.list.write_list.Goals as goal

pub returns : goal.returns
returns g c =
    let contents = g.W.Write.contents in
    let none = c.is_empty.ensures ∙ ap (λ gs. length gs == 0) c.groups.ensures in
    let lines = headed g.C.TextEntry.text c.args.kind.now c.groups-2.result.now c.args.list.now c.is_empty.result c.if-is_empty.false none c.groups-2.ensures in
    on_ok_more c.write_groups.result (contents c.args.output.now) (contents c.writeln.new.self) (contents c.write_groups.new.output) _ _ _ lines c.in_ok-writeln.ensures.bytes c.write_groups.ensures

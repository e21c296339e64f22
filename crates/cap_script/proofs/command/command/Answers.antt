use Rattle.std.proofs.Common.{subst, sym}
use Rattle.cap_language.specs.Grammar.{Reads}
use Rattle.cap_script.proofs.CommandLaws.{commit_read}
use Rattle.cap_script.proofs.command.command.Goals as goal

pub returns-in-Some : goal.returns-in-Some
returns-in-Some g c = record {
  reads = subst (Reads c.commit.result c.commit.new.cursor.rest.now)
      (sym (commit_read c.args.cursor.now.rest.now c.in-Some.ensures.0 c.in-Some.rest.now c.in-Some.ensures.1 c.in-Some.ensures.2))
      c.commit.ensures.reads;
}

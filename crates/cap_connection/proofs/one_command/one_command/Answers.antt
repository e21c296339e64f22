use Rattle.std.proofs.Common.{◌≡◌, List, ℕ, Some, None, rules, subst}
use Rattle.cap_value.specs.declared.memory.Fault.TheVariants.{Refused}
use Rattle.cap_script.specs.FirstRefused.{FaultOfFirstRefused}
use Rattle.cap_script.specs.RefusedLines.{NoLines}
use Rattle.std.specs.Global.{Global}
use Rattle.cap_connection.specs.OneCommand.{IsNotOne}
use Rattle.cap_connection.specs.declared.fault.TextFault.TheVariants.{InLine}
use Rattle.cap_connection.proofs.OneCommandLemmas.{first_refused, no_text, spells_one, spells_others}
use Rattle.cap_connection.proofs.one_command.one_command.Goals as goal

pub returns-in_default-clause-not_one : goal.returns-in_default-clause-not_one
returns-in_default-clause-not_one c = no_text c.args.text.now c.in_default.ensures.cases.0

pub returns-in-Err-Refused-clause-not_one : goal.returns-in-Err-Refused-clause-not_one
returns-in-Err-Refused-clause-not_one c =
    let fault = c.in-Err-Refused.fault in
    let is : c.in-Err-Refused.field-0 ≡ Refused fault = search rules in
    let none : NoLines Global (Refused fault) c.in-Ok.text.now = rw is at c.in-Err-Refused.ensures.none in
    let first : FaultOfFirstRefused Global 1 (Refused fault) c.in-Ok.text.now = rw is at c.in-Err-Refused.ensures.first in
    let refused = first_refused c.in-Ok.text.now fault none first in
    subst (λ (text : List ℕ). IsNotOne text (InLine fault)) c.in-Ok.ensures.cases.0 refused

pub returns-in-Ok-Some-clause-one : goal.returns-in-Ok-Some-clause-one
returns-in-Ok-Some-clause-one c =
    let is : c.in-Ok-Some.field-0 ≡ Some c.in-Ok-Some.line = search rules in
    spells_one c.in-Ok-Some.field-0 c.in-Ok-Some.line c.args.text.now c.in-Ok.text.now c.in-Ok-new.lines is c.in-Ok.ensures.cases.0 c.in-Ok-new.ensures.whole c.in-Ok.ensures.cases.1 c.in-Ok-new.ensures.within c.in-Ok-Some.ensures

pub returns-in-Ok-None-clause-not_one : goal.returns-in-Ok-None-clause-not_one
returns-in-Ok-None-clause-not_one c =
    let is : c.in-Ok-None.field-0 ≡ None = search rules in
    spells_others c.in-Ok-None.field-0 c.args.text.now c.in-Ok.text.now c.in-Ok-new.lines is c.in-Ok.ensures.cases.0 c.in-Ok-new.ensures.whole c.in-Ok-new.ensures.within c.in-Ok-None.ensures

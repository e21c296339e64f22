use Rattle.std.proofs.Common.{◌≡◌, ◌∙◌, ℕ, ◌≤◌, ◌==◌, Bool, true, false, List, [], ◌++◌, ◌∷◌, length, sym, arith}
use Rattle.std.proofs.lemmas.Bool.{eqb-false, eqb-true}
use Rattle.std.specs.Prelude.{Ok}
use Rattle.std.specs.Global.{Global}
use Rattle.cap_changes.specs.FieldReading.{field_of}
use Rattle.cap_changes.specs.FieldRecord.{RecordFields}
use Rattle.cap_field.proofs.Spelled.{are_low}
use Rattle.cap_records.specs.Record.{has_byte, record_in}
use Rattle.cap_records.proofs.FieldLemmas.{FieldsLeft, behind_low, fields_end, fields_fail, fields_go_on, fields_start, record_stands, shorter}
use Rattle.cap_records.proofs.reading.take_record.Goals as goal

some : (bytes : List ℕ) (empty : Bool) → empty ≡ (length bytes == 0) → empty ≡ false → 1 ≤ length bytes
some bytes empty is more = let other = eqb-false (length bytes) 0 (sym is ∙ more) in omega arith

none : (bytes : List ℕ) (empty : Bool) → empty ≡ (length bytes == 0) → empty ≡ true → length bytes ≡ 0
none bytes empty is end = eqb-true (length bytes) 0 (sym is ∙ end)

pub loop-rest-init : goal.loop-rest-init
loop-rest-init c = record {
  read = ([], fields_start c.args.requirement c.args.bytes.now);
  low = are_low c.args.bytes.now (λ i. omega (arith, c.type_inv.bytes i));
}

pub loop-rest-smaller : goal.loop-rest-smaller
loop-rest-smaller c = shorter c.args.requirement (length c.args.bytes.now) c.loop-rest.rest.now _ c.requires c.loop-rest.invariant.low c.in-Ok.ensures.reads

pub loop-rest-preserved : goal.loop-rest-preserved
loop-rest-preserved c =
    let (front, left) = c.loop-rest.invariant.read in
    let less = shorter c.args.requirement (length c.args.bytes.now) c.loop-rest.rest.now _ c.requires c.loop-rest.invariant.low c.in-Ok.ensures.reads in record {
      read = (_, fields_go_on c.args.requirement (length c.args.bytes.now) front c.loop-rest.rest.now _ _ _ (some c.loop-rest.rest.now c.is_empty.result c.is_empty.ensures c.loop-rest-test.true) c.in-Ok.ensures.reads less left);
      low = behind_low c.args.requirement (length c.args.bytes.now) c.loop-rest.rest.now _ c.requires c.loop-rest.invariant.low c.in-Ok.ensures.reads;
    }

pub returns-in-Err : goal.returns-in-Err
returns-in-Err c =
    fields_fail c.args.requirement (length c.args.bytes.now) c.loop-rest.invariant.read.0 c.loop-rest.rest.now c.in-Err.fault _ (some c.loop-rest.rest.now c.is_empty.result c.is_empty.ensures c.loop-rest-test.true) c.in-Err.ensures.reads c.loop-rest.invariant.read.1

pub of-requires : goal.of-requires
of-requires c =
    (record_stands c.args.requirement c.args.bytes.now c.loop-rest.invariant.read.0 c.requires (are_low c.args.bytes.now (λ i. omega (arith, c.type_inv.bytes i)))
    (fields_end c.args.requirement (length c.args.bytes.now) c.loop-rest.invariant.read.0 c.loop-rest.rest.now _ (none c.loop-rest.rest.now c.is_empty.result c.is_empty.ensures c.loop-rest-test.false) c.loop-rest.invariant.read.1)).1

pub returns : goal.returns
returns c =
    let read = fields_end c.args.requirement (length c.args.bytes.now) c.loop-rest.invariant.read.0 c.loop-rest.rest.now _ (none c.loop-rest.rest.now c.is_empty.result c.is_empty.ensures c.loop-rest-test.false) c.loop-rest.invariant.read.1 in
    let stands = record_stands c.args.requirement c.args.bytes.now c.loop-rest.invariant.read.0 c.requires (are_low c.args.bytes.now (λ i. omega (arith, c.type_inv.bytes i))) read in
    rw (c.of.ensures, stands.0) read

-- The whole way of a database: its dump is read as it was written, and loaded again.
use Rattle.std.proofs.Common.{◌≡◌, ℕ, List, [], Ok, Err, sym, ap, ◌∙◌}
use Rattle.cap_value.specs.declared.refusal.Refusal.{Refusal}
use Rattle.cap_database.specs.Tables.{Tables}
use Rattle.cap_codec.specs.BlobReading.{blob_at}
use Rattle.cap_field.specs.declared.fault.BlobFault.{BlobFault}
use Rattle.cap_codec.specs.declared.key_flags.KeyFlags.{KeyFlags}
use Rattle.cap_codec.specs.declared.read.Contents.{Contents}
use Rattle.cap_codec.specs.declared.read.Contents.TheVariants.{Changes}
use Rattle.cap_apply.proofs.ChangeLemmas.{same_ok}
use Rattle.cap_dump.specs.Dump.{dump, dump_bytes, keyed_parts}
use Rattle.cap_dump.specs.Load.{load}

-- what a database is known to be, and what is done with it
pub record IsOnItsWay {A : Type 0} (tables : Tables A) (key_flags : KeyFlags) (bytes : List ℕ) (start : Tables A) : Type 0 where
  pub written : bytes ≡ dump_bytes key_flags tables
  pub read : blob_at (dump_bytes key_flags tables) ≡ Ok (Changes (dump tables))
  pub made : load [] (Changes (dump tables)) ≡ Ok (keyed_parts tables)
  pub empty : start ≡ []

module _ {A : Type 0} (tables : Tables A) (key_flags : KeyFlags) (bytes : List ℕ) (start : Tables A) (way : IsOnItsWay tables key_flags bytes start) where
  is_read : blob_at bytes ≡ Ok (Changes (dump tables))
  is_read = ap blob_at way.written ∙ way.read

  loads : (blob : Contents A) → blob_at bytes ≡ Ok blob → load start blob ≡ Ok (keyed_parts tables)
  loads blob is = ap (λ t. load t blob) way.empty ∙ ap (load []) (same_ok (blob_at bytes) is is_read) ∙ way.made

  pub come_again : (blob : Contents A) (again : Tables A) → blob_at bytes ≡ Ok blob → load start blob ≡ Ok again → again ≡ keyed_parts tables
  come_again blob again is done = same_ok (load start blob) done (loads blob is)

  pub never_refused : (blob : Contents A) (why : Refusal) → blob_at bytes ≡ Ok blob → load start blob ≡ Err why → ⊥
  never_refused blob why is refused = let clash : Err why ≡ Ok (keyed_parts tables) = sym refused ∙ loads blob is in cc

-- what was dumped has no fault
pub never_faulty : {A : Type 0} (tables : Tables A) (key_flags : KeyFlags) (bytes : List ℕ) → bytes ≡ dump_bytes key_flags tables → blob_at (dump_bytes key_flags tables) ≡ Ok (Changes (dump tables))
    → (fault : BlobFault) → blob_at {A = A} bytes ≡ Err fault → ⊥
never_faulty tables key_flags bytes written read fault is = let clash : Err fault ≡ Ok (Changes (dump tables)) = sym is ∙ ap blob_at written ∙ read in cc

use Rattle.std.proofs.Common.{◌≡◌, List, Ok, drop, map}
use Rattle.std.specs.List.{AllZip}
use Rattle.cap_codec.specs.Spelling.{Spells}
use Rattle.cap_codec.specs.declared.read.Contents.{Contents}
use Rattle.cap_group.specs.Bytes.{all_bytes_added}
use Rattle.cap_group.specs.ChangeGroup.{GroupContent, all_added}
use Rattle.cap_group.proofs.bytes.add_all_bytes.Given as goal

-- the blobs that are left give what all of them give, and lists that they spell are the last of those that all spell
abbrev pub invariant-loop-blob : goal.invariant-loop-blob
invariant-loop-blob g l = record {
  content : all_bytes_added l.blob l.group (map (λ b. b.now) (drop l.blob l.blobs)) ≡ all_bytes_added 0 l.fn.group (map (λ b. b.now) l.blobs);
  spelled : (made : GroupContent g.row.A.Denot) (later : List (Contents g.row.A.Denot)) → AllZip Spells later (map (λ b. b.now) (drop l.blob l.blobs)) → all_added l.group later ≡ Ok made →
      (lists : List (Contents g.row.A.Denot)) × AllZip Spells lists (map (λ b. b.now) l.blobs) × (all_added l.fn.group lists ≡ Ok made);
}

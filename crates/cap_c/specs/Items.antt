-- What a transaction looked at, as C sees it.
use Rattle.std.specs.Prelude.{ℕ, List, Option, slice_get}
use Rattle.std.specs.Global.{Global}
use Rattle.cap_txn.specs.Batch.{BatchState, footprint_of}
use Rattle.cap_txn.specs.Footprint.{id_in, key_in}
use Rattle.cap_txn.specs.declared.item.Item.{Item}
use Rattle.cap_records.specs.Items.{item_kind}
use Rattle.cap_records.specs.Record.{values_bytes}
use Rattle.cap_records.specs.declared.items.ItemKind.{ItemKind}
use Rattle.cap_records.specs.declared.items.ItemKind.TheVariants.{Table, Row, Scan, NextId}
use Rattle.cap_c.specs.declared.items.ItemInfo.{ItemInfo}

abbrev pub kind_number : ItemKind → ℕ
kind_number Table = 0
kind_number Row = 1
kind_number Scan = 2
kind_number NextId = 3

-- what it is, and the id of a row that has no key
abbrev pub info_of : Item Global → ItemInfo
info_of item = record { kind = kind_number (item_kind item); id = id_in item }

-- the item of this number, which a batch has that a transaction made
abbrev pub item_of : BatchState Global → ℕ → Option (Item Global)
item_of batch at = slice_get (footprint_of batch.reads) at

-- the record of its key
abbrev pub key_bytes : Item Global → List ℕ
key_bytes item = values_bytes (key_in item)

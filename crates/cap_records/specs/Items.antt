-- The items of a footprint: what a commit compares.
use Rattle.std.specs.Global.{Global}
use Rattle.cap_txn.specs.declared.item.Item.{Item}
use Rattle.cap_txn.specs.declared.item.Item.TheVariants as item
use Rattle.cap_records.specs.declared.items.ItemKind.{ItemKind}
use Rattle.cap_records.specs.declared.items.ItemKind.TheVariants.{Table, Row, Scan, NextId}

abbrev pub item_kind : Item Global → ItemKind
item_kind (item.Table name) = Table
item_kind (item.Row name row) = Row
item_kind (item.Scan name) = Scan
item_kind (item.NextId name) = NextId

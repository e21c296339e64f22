-- What a handle owns: the box behind its pointer, where it is open.
use base.Fml.{Fml, ftrue}
use denote.RattleType.{RattleType}
use denote.RawPtr.{Ptr}
use Rattle.std.specs.Prelude.{Option, Some, None}
use Rattle.std.specs.Box.Ownership.{box_owns}
use Rattle.std.specs.Global.{Global}
use Rattle.std.specs.contracts.impls.GlobalAllocator.TheImpl.{ghosts}
use Rattle.cap_connection.specs.contracts.connection.Connection as Connection
use Rattle.cap_c.specs.contracts.held.HeldBatch as HeldBatch
use Rattle.cap_c.specs.contracts.held.HeldSnapshot as HeldSnapshot
use Rattle.cap_c.specs.contracts.held.HeldTransaction as HeldTransaction
use Rattle.cap_records.specs.contracts.rows.RowCursor as RowCursor
use Rattle.cap_c.specs.contracts.held.HeldCapture as HeldCapture
use Rattle.cap_connection.specs.contracts.iter.BlobIter as BlobIter
use Rattle.cap_connection.specs.contracts.decoder.PieceDecoder as PieceDecoder
use Rattle.cap_connection.specs.contracts.application.Application as Application

module _ (R : RattleType) where
  abbrev pub owns_if : Global → Ptr → Option R.Denot → Fml
  owns_if alloc at (Some it) = box_owns (ghosts.dealloc_token alloc) R at it
  owns_if alloc at None = ftrue

-- the types of what is behind handles, as the logic holds them
abbrev pub client_row : RattleType
client_row = Connection.the_row

abbrev pub batch_row : RattleType
batch_row = HeldBatch.the_row

abbrev pub snapshot_row : RattleType
snapshot_row = HeldSnapshot.the_row

abbrev pub transaction_row : RattleType
transaction_row = HeldTransaction.the_row

abbrev pub rows_row : RattleType
rows_row = RowCursor.the_row

abbrev pub capture_row : RattleType
capture_row = HeldCapture.the_row

abbrev pub iter_row : RattleType
iter_row = BlobIter.the_row

abbrev pub decoder_row : RattleType
decoder_row = PieceDecoder.the_row

abbrev pub application_row : RattleType
application_row = Application.the_row

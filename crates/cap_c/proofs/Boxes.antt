-- An open handle and its parts own what a box at the same types owns.
use mir.Syntax.{impl, tnil, dnil}
use mathlib.Core.List.{[]}
use denote.Param.Laws.{Laws}
use denote.RattleType.{RattleType}
use denote.Signature.{Slot, plain}
use Rattle.std.proofs.BoxSteps.Form.{Bx}
use Rattle.std.specs.contracts.alloc.Global as Heap
use Rattle.std.specs.contracts.impls.GlobalAllocator.TheImpl.{ghosts}
use Rattle.std.proofs.alloc.Global.TheLaws as heap
use Rattle.cap_connection.proofs.connection.Connection.TheLaws as client
use Rattle.cap_c.proofs.held.HeldBatch.TheLaws as batch
use Rattle.cap_c.proofs.held.HeldSnapshot.TheLaws as snapshot
use Rattle.cap_c.proofs.held.HeldTransaction.TheLaws as transaction
use Rattle.cap_records.proofs.rows.RowCursor.TheLaws as rows
use Rattle.cap_c.proofs.held.HeldCapture.TheLaws as capture
use Rattle.cap_connection.proofs.iter.BlobIter.TheLaws as iter
use Rattle.cap_connection.proofs.decoder.PieceDecoder.TheLaws as decoder
use Rattle.cap_connection.proofs.application.Application.TheLaws as application
use Rattle.cap_c.specs.Owns.{client_row, batch_row, snapshot_row, transaction_row, rows_row, capture_row, iter_row, decoder_row, application_row}
use Rattle.cap_c.specs.contracts.parts.Parts as Parts

module _ (R : RattleType) (laws : Laws R) where
  abbrev pub boxed : Bx
  boxed = record { row = R; laws = laws; al = record { row = Heap.the_row; laws = heap.the_row_laws; g = ghosts; d = impl [] tnil dnil; drops = impl [] tnil dnil } }

abbrev pub in_parts : RattleType → Slot 0
in_parts R = plain (λ _. Parts.the_row R Heap.the_row ghosts)

abbrev pub client_box : Bx
client_box = boxed client_row client.the_row_laws

abbrev pub client_parts : Slot 0
client_parts = in_parts client_row

abbrev pub batch_box : Bx
batch_box = boxed batch_row batch.the_row_laws

abbrev pub batch_parts : Slot 0
batch_parts = in_parts batch_row

abbrev pub snapshot_box : Bx
snapshot_box = boxed snapshot_row snapshot.the_row_laws

abbrev pub snapshot_parts : Slot 0
snapshot_parts = in_parts snapshot_row

abbrev pub transaction_box : Bx
transaction_box = boxed transaction_row transaction.the_row_laws

abbrev pub transaction_parts : Slot 0
transaction_parts = in_parts transaction_row

abbrev pub rows_box : Bx
rows_box = boxed rows_row rows.the_row_laws

abbrev pub rows_parts : Slot 0
rows_parts = in_parts rows_row

abbrev pub capture_box : Bx
capture_box = boxed capture_row capture.the_row_laws

abbrev pub capture_parts : Slot 0
capture_parts = in_parts capture_row

abbrev pub iter_box : Bx
iter_box = boxed iter_row iter.the_row_laws

abbrev pub iter_parts : Slot 0
iter_parts = in_parts iter_row

abbrev pub decoder_box : Bx
decoder_box = boxed decoder_row decoder.the_row_laws

abbrev pub decoder_parts : Slot 0
decoder_parts = in_parts decoder_row

abbrev pub application_box : Bx
application_box = boxed application_row application.the_row_laws

abbrev pub application_parts : Slot 0
application_parts = in_parts application_row

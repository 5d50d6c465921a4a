use Rattle.definitions.specs.{Pieces.{pieces_of, subfields_of}, PeripheralTable.peripheral_row}
use Rattle.statement_coder.proofs.PeripheralLaws.{peripheral-bad}
use Rattle.statement_coder.proofs.readings.read_peripheral.Goals as goal

pub returns-in-Err-clause-reading : goal.returns-in-Err-clause-reading
returns-in-Err-clause-reading c =
    peripheral-bad c.args.base (peripheral_row c.args.name.now) (subfields_of (pieces_of c.args.text.now)) c.in-None.ensures c.in-Err.ensures.1

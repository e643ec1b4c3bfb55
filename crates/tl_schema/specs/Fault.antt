-- What is told of bytes that are no row.
use Rattle.tl_codec.specs.declared.fault.ReadFault.{ReadFault}
use Rattle.tl_codec.specs.declared.fault.ReadFault.TheVariants as reading
use Rattle.tl_schema.specs.declared.fault.RowFault.{RowFault}
use Rattle.tl_schema.specs.declared.fault.RowFault.TheVariants as fault

abbrev pub row_fault : ReadFault → RowFault
row_fault reading.Bad = fault.BadRow
row_fault reading.NoMemory = fault.NoMemory

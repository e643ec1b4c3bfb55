-- What is told of bytes that are no key.
use Rattle.tl_codec.specs.declared.fault.ReadFault.{ReadFault}
use Rattle.tl_codec.specs.declared.fault.ReadFault.TheVariants as reading
use Rattle.tl_values.specs.declared.fault.KeyFault.{KeyFault}
use Rattle.tl_values.specs.declared.fault.KeyFault.TheVariants as fault

abbrev pub key_fault : ReadFault → KeyFault
key_fault reading.Bad = fault.BadKey
key_fault reading.NoMemory = fault.NoMemory

-- What the code's values are.
use Rattle.eden_value.specs.Datum.{Datum}
use Rattle.eden_value.specs.View.{datum}
use Rattle.lossy_wire.specs.Wire.{Packet, carried, heard}
use Rattle.lossy_wire.specs.Held.{Held}
use Rattle.lossy_wire.specs.Commands.{Command, sends, repeats, carries}
use Rattle.lossy_wire.specs.declared.packet.Header.{Header}
use Rattle.lossy_wire.specs.declared.packet.Header.TheVariants as code
use Rattle.lossy_wire.specs.declared.end.End.{End}
use Rattle.lossy_wire.specs.declared.commands.WireCommand.{WireCommand}
use Rattle.lossy_wire.specs.declared.commands.WireCommand.TheVariants as command

-- the header of a packet
abbrev pub header : Packet → Header
header (carried n d) = code.Carried n
header (heard n) = code.Known n

-- the packet with this header, and with this value where it has one
abbrev pub with_value : Datum → Header → Packet
with_value d (code.Carried n) = carried n d
with_value d (code.Known n) = heard n

-- the ends of a pair, in the code
abbrev pub held_of : End → Held
held_of e = record { sent = e.sent; known = e.known; delivered = e.delivered }

-- a command of the code
abbrev pub meant : WireCommand → Command
meant (command.Send a b v) = sends a b (datum v)
meant (command.Again a b) = repeats a b
meant (command.Carry a b i) = carries a b i

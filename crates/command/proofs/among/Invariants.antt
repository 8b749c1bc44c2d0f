-- What is left of the list from `i` gives the same answer as from the first row that is looked at.
use Rattle.std.proofs.Common.{◌≡◌, drop}
use Rattle.command.specs.Commands.{commands, lookup}
use Rattle.command.proofs.among.Given as goal

abbrev pub invariant-loop-i : goal.invariant-loop-i
invariant-loop-i l = lookup (drop l.i commands) l.first l.command ≡ lookup (drop l.from commands) l.first l.command

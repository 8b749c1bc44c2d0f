-- What a program says on standard error, behind its name.
use Rattle.std.specs.Prelude.{ℕ, List, ◌++◌, codes}
use Rattle.program.specs.declared.Failure.{Failure}
use Rattle.program.specs.declared.Failure.TheVariants.{Argument, Read, Write}

abbrev pub failure_text : Failure → List ℕ
failure_text (Argument usage) = codes "takes no argument, use: " ++ usage.now
failure_text Read = codes "not all could be read"
failure_text Write = codes "not all could be written"

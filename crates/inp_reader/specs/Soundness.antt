-- What an accepted input gives those who compute with it.
use Rattle.std.specs.Bool.{⊤}
use Rattle.net_types.specs.Sound.{IsSound}
use Rattle.inp_reader.specs.declared.reading.Read.{Read}
use Rattle.inp_reader.specs.declared.reading.Read.TheVariants.{Accepted, Refused}

-- the project of an accepted input is sound
abbrev pub AcceptsSound : Read → Type 0
AcceptsSound (Accepted project) = IsSound project
AcceptsSound (Refused faults) = ⊤

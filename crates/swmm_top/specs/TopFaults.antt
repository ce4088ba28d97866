-- The faults of a top call, and their texts.
use Rattle.std.specs.Prelude.{ℕ, List, ◌++◌, codes}
use Rattle.swmm_top.specs.declared.fault.Port.{Port}
use Rattle.swmm_top.specs.declared.fault.Port.TheVariants.{Inp, HotIn, Rpt, HotOut}
use Rattle.swmm_top.specs.declared.fault.TopFault.{TopFault}
use Rattle.swmm_top.specs.declared.fault.TopFault.TheVariants.{Read, Write, OutOfMemory}

-- a source can only fail to be read, and a sink only to be written
abbrev pub IsFaultOfPort : TopFault → Type 0
IsFaultOfPort (Read Inp) = Unit {0}
IsFaultOfPort (Read HotIn) = Unit {0}
IsFaultOfPort (Read Rpt) = ⊥
IsFaultOfPort (Read HotOut) = ⊥
IsFaultOfPort (Write Inp) = ⊥
IsFaultOfPort (Write HotIn) = ⊥
IsFaultOfPort (Write Rpt) = Unit {0}
IsFaultOfPort (Write HotOut) = Unit {0}
IsFaultOfPort OutOfMemory = Unit {0}

-- a port's name in a fault's text
abbrev pub port_name : Port → List ℕ
port_name Inp = codes "inp"
port_name HotIn = codes "hot-in"
port_name Rpt = codes "rpt"
port_name HotOut = codes "hot-out"

-- a fault's text
abbrev pub fault_text : TopFault → List ℕ
fault_text (Read port) = codes "read fault: " ++ port_name port
fault_text (Write port) = codes "write fault: " ++ port_name port
fault_text OutOfMemory = codes "out of memory"

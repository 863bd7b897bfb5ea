-- Numbers that their type keeps in range, as src/ids.rt names them.
use Rattle.rules.specs.Names.{harts, counters, codes, last_code}
use Rattle.rules.specs.declared.ids.Below.{Below}

-- "Hart numbers 0 to 127."
abbrev pub HartId : Type 0
HartId = Below harts

-- "Eight counters a hart."
abbrev pub CounterId : Type 0
CounterId = Below counters

-- "a mapped code is 0 to 21"
abbrev pub EventCode : Type 0
EventCode = Below codes

-- of a sent event, which leaves room for the received one
abbrev pub SentCode : Type 0
SentCode = Below last_code

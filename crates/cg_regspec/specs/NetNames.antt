-- The names of a register module's nets. Register, field and window names are in lower case there.
use Rattle.std.specs.Prelude.{ℕ, List, ◌++◌, codes}
use Rattle.std.specs.Fmt.{decimal}
use Rattle.std.specs.Str.{str_to_ascii_lowercase}
use Rattle.cg_desc.specs.declared.block.FieldDesc.{FieldDesc}
use Rattle.cg_desc.specs.declared.block.RegDesc.{RegDesc}
use Rattle.cg_desc.specs.declared.block.WindowDesc.{WindowDesc}

abbrev pub reg_we : List ℕ
reg_we = codes "reg_we"

abbrev pub reg_re : List ℕ
reg_re = codes "reg_re"

abbrev pub reg_addr : List ℕ
reg_addr = codes "reg_addr"

abbrev pub reg_wdata : List ℕ
reg_wdata = codes "reg_wdata"

abbrev pub reg_be : List ℕ
reg_be = codes "reg_be"

abbrev pub reg_rdata : List ℕ
reg_rdata = codes "reg_rdata"

abbrev pub reg_error : List ℕ
reg_error = codes "reg_error"

abbrev pub hit_any : List ℕ
hit_any = codes "hit_any"

abbrev pub wbad_any : List ℕ
wbad_any = codes "wbad_any"

abbrev pub rbad_any : List ℕ
rbad_any = codes "rbad_any"

-- ---- a row's nets, by its number

abbrev pub hit : ℕ → List ℕ
hit i = codes "hit_" ++ decimal i

-- a write at the row is refused
abbrev pub wbad : ℕ → List ℕ
wbad i = codes "wbad_" ++ decimal i

-- a read at the row is refused
abbrev pub rbad : ℕ → List ℕ
rbad i = codes "rbad_" ++ decimal i

abbrev pub we : ℕ → List ℕ
we i = codes "we_" ++ decimal i

abbrev pub re : ℕ → List ℕ
re i = codes "re_" ++ decimal i

-- what a read shows at this row or one of a lower number
abbrev pub rd : ℕ → List ℕ
rd i = codes "rd_" ++ decimal i

-- of a shadowed register's row: its phase, and the next one
abbrev pub phase_net : ℕ → List ℕ
phase_net i = codes "ph_" ++ decimal i

abbrev pub next_phase_net : ℕ → List ℕ
next_phase_net i = codes "ph_" ++ (decimal i ++ codes "_n")

-- every field's written value equals its staged one
abbrev pub equal_net : ℕ → List ℕ
equal_net i = codes "eq_" ++ decimal i

-- a write commits
abbrev pub commit_net : ℕ → List ℕ
commit_net i = codes "ok_" ++ decimal i

-- the instance that stores the phase
abbrev pub phase_instance : ℕ → List ℕ
phase_instance i = codes "u_ph_" ++ decimal i

-- ---- a field's nets

-- what a field's names begin with
unfoldable pub base : RegDesc → FieldDesc → List ℕ
base r f = str_to_ascii_lowercase r.name ++ (codes "_" ++ str_to_ascii_lowercase f.name)

-- the value that is stored
abbrev pub state_net : RegDesc → FieldDesc → List ℕ
state_net r f = base r f ++ codes "_s"

-- the value after hardware
abbrev pub hold_net : RegDesc → FieldDesc → List ℕ
hold_net r f = base r f ++ codes "_h"

-- the next value
abbrev pub next_net : RegDesc → FieldDesc → List ℕ
next_net r f = base r f ++ codes "_n"

abbrev pub q_net : RegDesc → FieldDesc → List ℕ
q_net r f = base r f ++ codes "_q"

abbrev pub qe_net : RegDesc → FieldDesc → List ℕ
qe_net r f = base r f ++ codes "_qe"

abbrev pub re_net : RegDesc → FieldDesc → List ℕ
re_net r f = base r f ++ codes "_re"

abbrev pub d_net : RegDesc → FieldDesc → List ℕ
d_net r f = base r f ++ codes "_d"

abbrev pub de_net : RegDesc → FieldDesc → List ℕ
de_net r f = base r f ++ codes "_de"

-- the staged value of a field of a shadowed register, and the next one
abbrev pub staged_net : RegDesc → FieldDesc → List ℕ
staged_net r f = base r f ++ codes "_t"

abbrev pub next_staged_net : RegDesc → FieldDesc → List ℕ
next_staged_net r f = base r f ++ codes "_v"

-- the instance that stores the value
abbrev pub flop_instance : RegDesc → FieldDesc → List ℕ
flop_instance r f = codes "u_" ++ base r f

-- and the one that stores the staged value
abbrev pub staged_instance : RegDesc → FieldDesc → List ℕ
staged_instance r f = codes "u_" ++ (base r f ++ codes "_t")

-- ---- a shadowed register's port

-- a second write differs from the first
unfoldable pub update_error_net : RegDesc → List ℕ
update_error_net r = codes "upd_" ++ (str_to_ascii_lowercase r.name ++ codes "_err")

-- ---- a window's ports

unfoldable pub window_base : WindowDesc → List ℕ
window_base w = codes "win_" ++ str_to_ascii_lowercase w.name

abbrev pub window_we : WindowDesc → List ℕ
window_we w = window_base w ++ codes "_we"

abbrev pub window_re : WindowDesc → List ℕ
window_re w = window_base w ++ codes "_re"

abbrev pub window_addr : WindowDesc → List ℕ
window_addr w = window_base w ++ codes "_addr"

abbrev pub window_wdata : WindowDesc → List ℕ
window_wdata w = window_base w ++ codes "_wdata"

abbrev pub window_be : WindowDesc → List ℕ
window_be w = window_base w ++ codes "_be"

abbrev pub window_rdata : WindowDesc → List ℕ
window_rdata w = window_base w ++ codes "_rdata"

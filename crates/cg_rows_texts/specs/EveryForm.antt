-- An example: a module with each form of entry and of expression. The rows print it.
use Rattle.std.specs.Prelude.{List, [], ◌∷◌, codes}
use Rattle.cg_svspec.specs.Tree.{Expression, net, cut, lit, cat, inv, any, and, or, equal, pick, none, more, Port, Parameter, Connection, Entry, wire, drive, assign, inst, Module}
use Rattle.cg_svspec.specs.Register.{input_port, output_port}
use Rattle.cg_sv.specs.Views.{parameter, connection}

-- one bit, and 32 and 8 bits
abbrev pub example_ports : List Port
example_ports = input_port 1 (codes "clk_i") ∷ input_port 32 (codes "data_i") ∷ output_port 8 (codes "out_o") ∷ []

-- (|(~data_i[7:0]))
abbrev pub example_some : Expression
example_some = any (inv (cut (codes "data_i") 7 0))

-- (some & (data_i == 32'hff))
abbrev pub example_condition : Expression
example_condition = and (net (codes "some")) (equal (net (codes "data_i")) (lit 32 255))

-- {4'h0, data_i[31:28]}
abbrev pub example_high : Expression
example_high = cat (more (lit 4 0) (more (cut (codes "data_i") 31 28) none))

-- (kept | 8'h1)
abbrev pub example_kept : Expression
example_kept = or (net (codes "kept")) (lit 8 1)

-- .clk_i(clk_i), .d_i(next), .q_o(kept)
abbrev pub example_connections : List Connection
example_connections = connection (codes "clk_i") (net (codes "clk_i")) ∷ connection (codes "d_i") (net (codes "next")) ∷ connection (codes "q_o") (net (codes "kept")) ∷ []

-- a plain number and a literal: .Width(8), .ResetValue(8'h0)
abbrev pub example_parameters : List Parameter
example_parameters = parameter (codes "Width") (lit 0 8) ∷ parameter (codes "ResetValue") (lit 8 0) ∷ []

-- an instance with parameters
abbrev pub example_flop : Entry
example_flop = inst (codes "prim_flop") example_parameters (codes "u_kept") example_connections

-- an instance without parameters
abbrev pub example_plain : Entry
example_plain = inst (codes "plain") [] (codes "u_plain") (connection (codes "a") (net (codes "some")) ∷ [])

-- each form of entry
abbrev pub example_entries : List Entry
example_entries =
    wire 8 (codes "kept")
    ∷ drive 1 (codes "some") example_some
    ∷ drive 8 (codes "next") (pick example_condition example_high example_kept)
    ∷ assign (codes "out_o") (net (codes "kept"))
    ∷ example_flop
    ∷ example_plain
    ∷ []

-- the whole module
abbrev pub example : Module
example = record { name = codes "every_form"; ports = example_ports; entries = example_entries }

-- The text of a module reads to the module's tokens.
use Rattle.std.proofs.Common.{ℕ, ◌≤◌, ◌^◌, ◌-◌, eqb, cond, Bool, true, false, List, [], ◌∷◌, ◌++◌, refl, append_assoc, append-nil, codes, arith}
use Rattle.std.specs.Fmt.{decimal, digits}
use Rattle.cg_svspec.specs.Tokens.{Token, word, num, mark, ReadsTo}
use Rattle.cg_svspec.specs.Tree as tree
use Rattle.cg_svspec.specs.Tree.{Port, Parameter, Connection, Entry, Module}
use Rattle.cg_svspec.specs.Layout.{range_text, port_text, ports_text, parameter_text, parameters_after_text, parameters_text, connection_text, connections_text, entry_text, entries_text, module_text}
use Rattle.cg_svspec.specs.Grammar.{range_tokens, port_tokens, ports_after, ports_tokens, parameter_tokens, parameters_after, parameters_tokens, connection_tokens, connections_after, connections_tokens, entry_tokens, entries_tokens, module_tokens}
use Rattle.cg_svspec.specs.Printable.{AllOf, IsWidth, IsPrintablePort, IsPrintableParameter, IsPrintableConnection, IsPrintableEntry, IsPrintable}
use Rattle.cg_svspec.specs.Stands.{PrintedTextStands}
use Rattle.cg_svspec.proofs.Longest.{Apart}
use Rattle.cg_svspec.proofs.Pieces
use Rattle.cg_svspec.proofs.PrintedExpressions.{number, expression_reads, value_reads}

-- a range, or none where the width is 1
either_reads : (b : Bool) (w : ℕ) → w ≤ 2 ^ 16 → (more : List ℕ) (us : List Token) (tail : List ℕ) → ReadsTo more us tail → ReadsTo (cond b [] (codes "[" ++ (decimal (w - 1) ++ codes ":0] ")) ++ more) (cond b [] (mark 91 ∷ num (w - 1) ∷ mark 58 ∷ num 0 ∷ mark 93 ∷ []) ++ us) tail
unfolding digits
either_reads true w is more us tail r = r
either_reads false w is more us tail r =
    simp append_assoc
    (Pieces.one 91 refl refl
    (number (w - 1) _ _ tail (omega arith) Pieces.apart_colon
    (Pieces.one 58 refl refl
    (number 0 _ _ tail (omega arith) Pieces.apart_close_bracket
    (Pieces.one 93 refl refl (Pieces.space r))))))

-- the range of a width
range_reads : (w : ℕ) → IsWidth w → (more : List ℕ) (us : List Token) (tail : List ℕ) → ReadsTo more us tail → ReadsTo (range_text w ++ more) (range_tokens w ++ us) tail
unfolding range_text range_tokens
range_reads w is more us tail r = either_reads (eqb w 1) w is.1 more us tail r

-- the direction of a port
side_reads : (b : Bool) (more : List ℕ) (us : List Token) (tail : List ℕ) → ReadsTo more us tail → ReadsTo (cond b (codes "input ") (codes "output ") ++ more) (word (cond b (codes "input") (codes "output")) ∷ us) tail
side_reads true more us tail r = Pieces.quoted (codes "input") refl Pieces.apart_space (Pieces.space r)
side_reads false more us tail r = Pieces.quoted (codes "output") refl Pieces.apart_space (Pieces.space r)

-- a port
port_reads : (p : Port) → IsPrintablePort p → (more : List ℕ) (us : List Token) (tail : List ℕ) → Apart more → ReadsTo more us tail → ReadsTo (port_text p ++ more) (port_tokens p ++ us) tail
unfolding port_text port_tokens
port_reads p is more us tail apart r =
    simp append_assoc
    (Pieces.space (Pieces.space
    (side_reads p.input _ _ tail
    (range_reads p.width is.0 _ _ tail
    (Pieces.named p.name is.1.0 apart r)))))

-- what stands behind a port
behind_port : (ps : List Port) (more : List ℕ) → Apart more → Apart (ports_text (codes ",\n") ps ++ more)
behind_port [] more apart = apart
behind_port (p ∷ ps) more apart = Pieces.apart_comma

-- the ports behind the first one
ports_after_reads : (ps : List Port) → AllOf IsPrintablePort ps → (more : List ℕ) (us : List Token) (tail : List ℕ) → Apart more → ReadsTo more us tail → ReadsTo (ports_text (codes ",\n") ps ++ more) (ports_after ps ++ us) tail
ports_after_reads [] is more us tail apart r = r
ports_after_reads (p ∷ ps) is more us tail apart r =
    simp append_assoc
    (Pieces.one 44 refl refl (Pieces.line_feed
    (port_reads p is.0 _ _ tail (behind_port ps more apart)
    (ports_after_reads ps is.1 more us tail apart r))))

-- all ports
ports_reads : (ps : List Port) → AllOf IsPrintablePort ps → (more : List ℕ) (us : List Token) (tail : List ℕ) → Apart more → ReadsTo more us tail → ReadsTo (ports_text [] ps ++ more) (ports_tokens ps ++ us) tail
ports_reads [] is more us tail apart r = r
ports_reads (p ∷ ps) is more us tail apart r =
    simp append_assoc
    (port_reads p is.0 _ _ tail (behind_port ps more apart)
    (ports_after_reads ps is.1 more us tail apart r))

-- a parameter
parameter_reads : (p : Parameter) → IsPrintableParameter p → (more : List ℕ) (us : List Token) (tail : List ℕ) → ReadsTo more us tail → ReadsTo (parameter_text p ++ more) (parameter_tokens p ++ us) tail
unfolding parameter_text parameter_tokens
parameter_reads p is more us tail r =
    simp append_assoc
    (Pieces.one 46 refl refl
    (Pieces.named p.name is.0.0 Pieces.apart_open
    (Pieces.one 40 refl refl
    (value_reads p.value is.1 _ _ tail Pieces.apart_close (Pieces.one 41 refl refl r)))))

-- the parameters behind the first one, and the closing parenthesis
parameters_after_reads : (ps : List Parameter) → AllOf IsPrintableParameter ps → (more : List ℕ) (us : List Token) (tail : List ℕ) → ReadsTo more us tail → ReadsTo (parameters_after_text (codes ", ") ps ++ (codes ") " ++ more)) (parameters_after ps ++ us) tail
parameters_after_reads [] is more us tail r = Pieces.one 41 refl refl (Pieces.space r)
parameters_after_reads (p ∷ ps) is more us tail r =
    simp append_assoc
    (Pieces.one 44 refl refl (Pieces.space
    (parameter_reads p is.0 _ _ tail
    (parameters_after_reads ps is.1 more us tail r))))

-- all parameters of an instance
parameters_reads : (ps : List Parameter) → AllOf IsPrintableParameter ps → (more : List ℕ) (us : List Token) (tail : List ℕ) → ReadsTo more us tail → ReadsTo (parameters_text ps ++ more) (parameters_tokens ps ++ us) tail
parameters_reads [] is more us tail r = r
parameters_reads (p ∷ ps) is more us tail r =
    simp append_assoc
    (Pieces.one 35 refl refl (Pieces.one 40 refl refl
    (parameter_reads p is.0 _ _ tail
    (parameters_after_reads ps is.1 more us tail r))))

-- a connection
connection_reads : (c : Connection) → IsPrintableConnection c → (more : List ℕ) (us : List Token) (tail : List ℕ) → ReadsTo more us tail → ReadsTo (connection_text c ++ more) (connection_tokens c ++ us) tail
unfolding connection_text connection_tokens
connection_reads c is more us tail r =
    simp append_assoc
    (Pieces.space (Pieces.space (Pieces.space (Pieces.space
    (Pieces.one 46 refl refl
    (Pieces.named c.name is.0.0 Pieces.apart_open
    (Pieces.one 40 refl refl
    (expression_reads c.value is.1.0 _ _ tail Pieces.apart_close (Pieces.one 41 refl refl r)))))))))

-- the connections behind the first one
connections_after_reads : (cs : List Connection) → AllOf IsPrintableConnection cs → (more : List ℕ) (us : List Token) (tail : List ℕ) → ReadsTo more us tail → ReadsTo (connections_text (codes ",\n") cs ++ more) (connections_after cs ++ us) tail
connections_after_reads [] is more us tail r = r
connections_after_reads (c ∷ cs) is more us tail r =
    simp append_assoc
    (Pieces.one 44 refl refl (Pieces.line_feed
    (connection_reads c is.0 _ _ tail
    (connections_after_reads cs is.1 more us tail r))))

-- all connections of an instance
connections_reads : (cs : List Connection) → AllOf IsPrintableConnection cs → (more : List ℕ) (us : List Token) (tail : List ℕ) → ReadsTo more us tail → ReadsTo (connections_text [] cs ++ more) (connections_tokens cs ++ us) tail
connections_reads [] is more us tail r = r
connections_reads (c ∷ cs) is more us tail r =
    simp append_assoc
    (connection_reads c is.0 _ _ tail
    (connections_after_reads cs is.1 more us tail r))

-- an entry
entry_reads : (x : Entry) → IsPrintableEntry x → (more : List ℕ) (us : List Token) (tail : List ℕ) → ReadsTo more us tail → ReadsTo (entry_text x ++ more) (entry_tokens x ++ us) tail
entry_reads (tree.wire w n) is more us tail r =
    simp append_assoc
    (Pieces.quoted (codes "wire") refl Pieces.apart_space (Pieces.space
    (range_reads w is.0 _ _ tail
    (Pieces.named n is.1.0 Pieces.apart_semicolon (Pieces.one 59 refl refl r)))))
entry_reads (tree.drive w n x) is more us tail r =
    simp append_assoc
    (Pieces.quoted (codes "wire") refl Pieces.apart_space (Pieces.space
    (range_reads w is.0 _ _ tail
    (Pieces.named n is.1.0 Pieces.apart_space (Pieces.space (Pieces.assigns
    (expression_reads x is.2.0 _ _ tail Pieces.apart_semicolon (Pieces.one 59 refl refl r))))))))
entry_reads (tree.assign n x) is more us tail r =
    simp append_assoc
    (Pieces.quoted (codes "assign") refl Pieces.apart_space (Pieces.space
    (Pieces.named n is.0.0 Pieces.apart_space (Pieces.space (Pieces.assigns
    (expression_reads x is.1.0 _ _ tail Pieces.apart_semicolon (Pieces.one 59 refl refl r)))))))
entry_reads (tree.inst m ps n cs) is more us tail r =
    simp append_assoc
    (Pieces.named m is.0.0 Pieces.apart_space (Pieces.space
    (parameters_reads ps is.1 _ _ tail
    (Pieces.named n is.2.0 Pieces.apart_space (Pieces.space (Pieces.one 40 refl refl (Pieces.line_feed
    (connections_reads cs is.4 _ _ tail
    (Pieces.line_feed (Pieces.space (Pieces.space (Pieces.one 41 refl refl (Pieces.one 59 refl refl r)))))))))))))

-- all entries, each on a line of its own
entries_reads : (xs : List Entry) → AllOf IsPrintableEntry xs → (more : List ℕ) (us : List Token) (tail : List ℕ) → ReadsTo more us tail → ReadsTo (entries_text xs ++ more) (entries_tokens xs ++ us) tail
entries_reads [] is more us tail r = r
entries_reads (x ∷ xs) is more us tail r =
    simp append_assoc
    (Pieces.space (Pieces.space
    (entry_reads x is.0 _ _ tail (Pieces.line_feed
    (entries_reads xs is.1 more us tail r)))))

-- a module's text, and what is read behind it
pub module_reads : (m : Module) → IsPrintable m → (more : List ℕ) (us : List Token) (tail : List ℕ) → ReadsTo more us tail → ReadsTo (module_text m ++ more) (module_tokens m ++ us) tail
module_reads m is more us tail r =
    simp append_assoc
    (Pieces.remark (codes " Generated by chipgen.") _ _ tail refl
    (Pieces.line_feed
    (Pieces.quoted (codes "module") refl Pieces.apart_space (Pieces.space
    (Pieces.named m.name is.name.0 Pieces.apart_space (Pieces.space (Pieces.one 40 refl refl (Pieces.line_feed
    (ports_reads m.ports is.ports _ _ tail Pieces.apart_line_feed
    (Pieces.line_feed (Pieces.one 41 refl refl (Pieces.one 59 refl refl (Pieces.line_feed
    (entries_reads m.entries is.entries _ _ tail
    (Pieces.quoted (codes "endmodule") refl Pieces.apart_line_feed (Pieces.line_feed r))))))))))))))))

-- what is printed stands for just the module that was printed
pub printed_stands : PrintedTextStands
printed_stands m is = record {
  trees = (is, tt);
  reads = rw (← append-nil (module_text m)) (module_reads m is [] [] [] (Pieces.finish []));
}

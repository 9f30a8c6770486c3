-- The program's lines, in the words of the definition.
use Rattle.cg_inputs.specs.Lines as input
use Rattle.cg_session.specs.declared.line.Line.{Line}
use Rattle.cg_session.specs.declared.line.Line.TheVariants.{Put, Del, Build, Finish}

abbrev pub seen : Line → input.Line
seen (Put name count) = input.put name.now count
seen (Del name) = input.del name.now
seen Build = input.build
seen Finish = input.finish

use Rattle.std.proofs.Common.{map, string_bytes}
use Rattle.cpt_words.proofs.Reading.{within_of}
use Rattle.cpt_words.proofs.words.command_in.Goals as goal

pub returns-clause-within : goal.returns-clause-within
returns-clause-within c = within_of c.read_command.result (map string_bytes c.args.words.now) c.read_command.ensures

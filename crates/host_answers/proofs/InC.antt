-- An answer in C tells what the library's call answered, with the buffers beside it. Assumes nothing.
use Rattle.host_answers.specs.Answers.{edit_in_c_lem, batch_in_c_lem, border_in_c_lem, planes_in_c_lem}
use Rattle.host_answers.proofs.Tally.{tally_in_c_lem}

pub ruleset in_c = (edit_in_c_lem, batch_in_c_lem, border_in_c_lem, planes_in_c_lem, tally_in_c_lem)

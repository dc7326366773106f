use Rattle.std.proofs.Common.{◌≡◌, length, map, string_bytes, sym, arith}
use Rattle.std.proofs.lemmas.List.{length-map}
use Rattle.prem_pair_top.proofs.FewWords.{few_ask_nothing}
use Rattle.prem_pair_top.proofs.words.asked_of.Goals as goal

pub returns-in-empty : goal.returns-in-empty
returns-in-empty c =
    let words = c.args.words.now in
    let size : length (map string_bytes words) ≡ length words = length-map words string_bytes in
    sym (few_ask_nothing (map string_bytes words) (omega (arith, size, c.in-empty.len_below)))

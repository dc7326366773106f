-- The printed lists are the lines of a run file, and losses are told only where there are some.
use Rattle.std.specs.Option.{option_map_or}
use Rattle.std.proofs.Common.{◌≡◌, ℕ, zero, suc, List, [], ◌∷◌, ◌++◌, length, All, slice_get, refl, ap, ap₂, sym, ◌∙◌}
use Rattle.std.proofs.lemmas.List.{append_assoc, append-nil}
use Rattle.std.proofs.lemmas.List.Elements.{All-head, All-tail}
use Rattle.prem_image.specs.declared.image.TaskRecord.{TaskRecord}
use Rattle.prem_image.specs.Records.{task_names}
use Rattle.prem_set.specs.Run.Text as run
use Rattle.prem_set.specs.Run.Text.{list_line}
use Rattle.prem_report.specs.Report.{in_turn, task_name}
use Rattle.prem_running.specs.Mail.Text.{lists_text, loss_text, losses_text}

-- the first one stands in front of the others
first_in_turn : (text : ℕ → List ℕ) (n : ℕ) → in_turn text (suc n) ≡ text 0 ++ in_turn (λ k. text (suc k)) n
first_in_turn text zero = sym (append-nil (text 0))
first_in_turn text (suc n) = ap (λ (t : List ℕ). t ++ text (suc n)) (first_in_turn text n) ∙ append_assoc (text 0) (in_turn (λ k. text (suc k)) n) (text (suc n))

nothing_in_turn : (text : ℕ → List ℕ) → ((k : ℕ) → text k ≡ []) → (n : ℕ) → in_turn text n ≡ []
nothing_in_turn text none zero = refl
nothing_in_turn text none (suc n) = ap₂ (λ (a b : List ℕ). a ++ b) (nothing_in_turn text none n) (none n)

pub lists_are_lines : (tasks : List TaskRecord) (lists : List (List ℕ)) → lists_text tasks lists ≡ run.lists_text (task_names tasks) lists
lists_are_lines [] lists = refl
lists_are_lines (t ∷ ts) [] = nothing_in_turn (λ k. option_map_or (list_line (task_name (t ∷ ts) k)) (slice_get [] k) []) (λ k. refl) (length (t ∷ ts))
lists_are_lines (t ∷ ts) (list ∷ lists) =
    first_in_turn (λ k. option_map_or (list_line (task_name (t ∷ ts) k)) (slice_get (list ∷ lists) k) []) (length ts)
    ∙ ap (λ (rest : List ℕ). list_line t.name list ++ rest) (lists_are_lines ts lists)

-- where nothing was lost, no line tells of it
no_loss : (name lost : List ℕ) (k : ℕ) → All (λ n. n ≡ 0) lost → option_map_or (loss_text name) (slice_get lost k) [] ≡ []
no_loss name [] k all = refl
no_loss name (n ∷ lost) zero all = ap (loss_text name) (All-head (λ m. m ≡ 0) n lost all)
no_loss name (n ∷ lost) (suc k) all = no_loss name lost k (All-tail (λ m. m ≡ 0) n lost all)

pub no_losses : (tasks : List TaskRecord) (lost : List ℕ) → All (λ n. n ≡ 0) lost → losses_text tasks lost ≡ []
no_losses tasks lost all =
    nothing_in_turn (λ k. option_map_or (loss_text (task_name tasks k)) (slice_get lost k) []) (λ k. no_loss (task_name tasks k) lost k all) (length tasks)

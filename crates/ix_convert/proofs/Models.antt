-- A generated file is an input that is converted.
use Rattle.std.proofs.Common.{◌≡◌, ℕ, ◌≤◌, pos, List, length, subst}
use Rattle.model_gen.specs.Model.{model}
use Rattle.model_laws.proofs.Inputs.{model_is_input}
use Rattle.ix_words.specs.Words.{IsCount}
use Rattle.spec_run.specs.declared.FileFault.{FileFault}
use Rattle.spec_run.specs.Inputs.{most_bytes, IsFaultOf}
use Rattle.ix_convert.proofs.OneInput.{no_fault}

pub small_model : (n : ℕ) → IsCount n → length (model n) ≤ most_bytes
small_model n h = let input = model_is_input n h in input.1.file.small

pub accepted_model : (n : ℕ) (source : List ℕ) (why : FileFault) → IsCount n → source ≡ model n → IsFaultOf source why → ⊥
accepted_model n source why h is fault =
    let input = model_is_input n h in
    no_fault (model n) input.0 (pos 1000000) why input.1 (subst (λ (text : List ℕ). IsFaultOf text why) is fault)

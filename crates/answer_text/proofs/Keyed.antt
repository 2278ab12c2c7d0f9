-- Lines that begin with a key.
use Rattle.std.proofs.Common.{◌≡◌, ◌∙◌, sym, ap, subst, ℕ, List, [], ◌∷◌, Bool, true, cond, Option, Some, None, Result}
use Rattle.std.specs.Prelude.{nat_eq}
use Rattle.std.proofs.lemmas.Bool.{eqb-true}
use Rattle.std.proofs.lemmas.Slice.Eq.{bytes_eq-Decides}
use Rattle.line_text.specs.declared.reading.Refused.{Refused}
use Rattle.line_text.specs.Fields.{Word, kept_if}
use Rattle.line_text.specs.Cursor.{Gives}
use Rattle.answer_text.specs.Reading.{behind, HopWords, follow_hop, Phase, or_else, where_ended, Step}
use Rattle.device_rules.specs.declared.rules.Rule.{Rule}
use Rattle.answer_spec.specs.declared.answer.Answer.{Answer}
use Rattle.answer_text.specs.declared.fields.HopWords as fields
use Rattle.answer_text.specs.Views.{hop_view, hop_added}

behind_key : {A : Type 0} (key word : Word) (read : List Word → Option A) (words ws : List Word) → words ≡ word ∷ ws → word ≡ key → behind key read words ≡ read ws
behind_key key word read words ws cut is =
    ap (behind key read) cut ∙ ap (λ (t : Bool). cond t (read ws) None) ((bytes_eq-Decides word key).1 is)

pub given_behind : {X Y : Type 0} (view : X → Y) (result : Result X Refused) (key word : Word) (read : List Word → Option Y) (words ws : List Word) → words ≡ word ∷ ws → word ≡ key → Gives view result (read ws) → Gives view result (behind key read words)
given_behind {Y} view result key word read words ws cut is given = subst (λ (o : Option Y). Gives view result o) (sym (behind_key key word read words ws cut is)) given

pub hop_follows : (n : ℕ) (o : Option HopWords) (x : fields.HopWords) → o ≡ Some (hop_view x) → nat_eq x.number n ≡ true → follow_hop n o ≡ Some (hop_added x.number x)
hop_follows n o x read same =
    ap (follow_hop n) read ∙ ap (λ (t : Bool). kept_if t (hop_added n x)) same ∙ ap (λ (k : ℕ). Some (hop_added k x)) (sym (eqb-true x.number n same))

-- the second of two, where the first is not there
pub given_else : {X Y : Type 0} (view : X → Y) (result : Result X Refused) (first second : Option Y) → first ≡ None → Gives view result second → Gives view result (or_else first second)
given_else {Y} view result first second none given = subst (λ (o : Option Y). Gives view result (or_else o second)) (sym none) given

-- what comes behind rules that may end
pub given_ended : {X : Type 0} (view : X → Phase × (Answer → Answer)) (result : Result X Refused) (end : Option (List Rule)) (test : Bool) (later : Step) → end ≡ kept_if test [] → test ≡ true → Gives view result later → Gives view result (where_ended end later)
given_ended view result end test later is ended given =
    subst (λ (o : Option (List Rule)). Gives view result (where_ended o later)) (sym (is ∙ ap (λ (t : Bool). kept_if t []) ended)) given

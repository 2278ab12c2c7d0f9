-- Reading the own words of a command first, and then those of its files.
use Rattle.std.proofs.Common.{◌≡◌, ◌∙◌, sym, ap, List, [], ◌∷◌, ◌++◌, append_assoc, ℕ}
use Rattle.io_edges.specs.Reads.{Store}
use Rattle.replies.specs.declared.reply.Reply.{Reply}
use Rattle.replies.specs.declared.reply.Stop.{Stop}
use Rattle.replies.specs.Through.{Each, Ends, IsStop}
use Rattle.replies.proofs.Steps.{Stops-so}
use Rattle.file_words.specs.declared.reading.FileWord.{FileWord}
use Rattle.file_words.specs.Reading.{AreRead, IsRead, IsRefused, StopsReading}
use Rattle.file_words.proofs.Stores.{GoesOn, IsRead-wide, IsRefused-wide}

-- the items of two lists have their partners
pub Each-append : {A B : Type 0} (R : A → B → Type 0) (xs ys : List A) (us vs : List B) → Each R xs us → Each R ys vs → Each R (xs ++ ys) (us ++ vs)
Each-append R [] ys [] vs p q = q
Each-append R [] ys (u ∷ us) vs p q = absurd p
Each-append R (x ∷ xs) ys [] vs p q = absurd p
Each-append R (x ∷ xs) ys (u ∷ us) vs p q = (p.0, Each-append R xs ys us vs p.1 q)

-- files that are read later in a run are those of its beginning
pub Each-wide : (before mid : Store) (words : List FileWord) (contents : List (List ℕ)) → GoesOn before mid → AreRead mid words contents → AreRead before words contents
Each-wide before mid [] [] on p = p
Each-wide before mid [] (c ∷ cs) on p = absurd p
Each-wide before mid (w ∷ ws) [] on p = absurd p
Each-wide before mid (w ∷ ws) (c ∷ cs) on p = (IsRead-wide before mid w c on p.0, Each-wide before mid ws cs on p.1)

stops-own : (before after : Store) (own words : List FileWord) (reply : Reply) → StopsReading before after own reply → StopsReading before after (own ++ words) reply
stops-own before after own words reply e = record {
  earlier = e.earlier;
  item = e.item;
  later = e.later ++ words;
  partners = e.partners;
  split = ap (λ (ws : List FileWord). ws ++ words) e.split ∙ append_assoc e.earlier (e.item ∷ e.later) words;
  passed = e.passed;
  ends = e.ends;
}

stops-file : (before mid after : Store) (own words : List FileWord) (held : List (List ℕ)) (reply : Reply) → GoesOn before mid → AreRead before own held → StopsReading mid after words reply
    → StopsReading before after (own ++ words) reply
stops-file before mid after own words held reply on read e = record {
  earlier = own ++ e.earlier;
  item = e.item;
  later = e.later;
  partners = held ++ e.partners;
  split = ap (λ (ws : List FileWord). own ++ ws) e.split ∙ sym (append_assoc own e.earlier (e.item ∷ e.later));
  passed = Each-append (IsRead before) own e.earlier held e.partners read (Each-wide before mid e.earlier e.partners on e.passed);
  ends = IsRefused-wide before mid after e.item reply on e.ends;
}

-- the run ends at an own word
pub own-stop : (before after : Store) (own words : List FileWord) (stop : Stop) → IsStop stop (StopsReading before after own) → IsStop stop (StopsReading before after (own ++ words))
own-stop before after own words stop p =
    Stops-so {P = StopsReading before after own} {Q = StopsReading before after (own ++ words)} stop (λ reply e. stops-own before after own words reply e) p

-- the run ends at the word of a file
pub file-stop : (before mid after : Store) (own words : List FileWord) (held : List (List ℕ)) (stop : Stop) → GoesOn before mid → AreRead before own held → IsStop stop (StopsReading mid after words)
    → IsStop stop (StopsReading before after (own ++ words))
file-stop before mid after own words held stop on read p =
    Stops-so {P = StopsReading mid after words} {Q = StopsReading before after (own ++ words)} stop (λ reply e. stops-file before mid after own words held reply on read e) p

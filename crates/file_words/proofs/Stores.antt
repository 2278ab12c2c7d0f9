-- Reads later in a run say what they say of the whole run.
use Rattle.std.proofs.Common.{◌≡◌, subst, ℕ, ◌≤◌, List, Some, None, inl, inr, arith}
use Rattle.io_edges.specs.Counts.{Rose}
use Rattle.io_edges.specs.Reads.{Store, Contents, Holds, IsAbsent, IsOver}
use Rattle.io_edges.specs.declared.files.ReadAnswer.{ReadAnswer}
use Rattle.replies.specs.declared.reply.Reply.{Reply}
use Rattle.file_words.specs.declared.reading.FileWord.{FileWord}
use Rattle.file_words.specs.Reading.{IsRead, IsLastRead, IsRefused}

-- what a store keeps over reads
pub record GoesOn (before mid : Store) : Type 0 where
  pub kept : mid.contents ≡ before.contents
  pub reads : before.reads ≤ mid.reads
  pub faults : before.faults ≤ mid.faults

Rose-wide : (a b c : ℕ) → a ≤ b → Rose b c → Rose a c
Rose-wide a b c le rose = omega arith

-- the cause of an absence may be weakened
pub IsAbsent-wide : (contents : Contents) (name : List ℕ) (P Q : Type 0) → (P → Q) → IsAbsent contents name P → IsAbsent contents name Q
IsAbsent-wide (Some told) name P Q f absent = absent
IsAbsent-wide None name P Q f absent = f absent

pub IsRead-wide : (before mid : Store) (word : FileWord) (bytes : List ℕ) → GoesOn before mid → IsRead mid word bytes → IsRead before word bytes
IsRead-wide before mid word bytes on read = record { holds = subst (λ (c : Contents). Holds c word.name bytes) on.kept read.holds; within = read.within }

IsLastRead-wide : (before mid after : Store) (word : FileWord) (reply : ReadAnswer) → GoesOn before mid → IsLastRead mid after word reply → IsLastRead before after word reply
IsLastRead-wide before mid after word reply on read = record { counted = Rose-wide before.reads mid.reads after.reads on.reads read.counted; last = read.last }

pub IsRefused-wide : (before mid after : Store) (word : FileWord) (reply : Reply) → GoesOn before mid → IsRefused mid after word reply → IsRefused before after word reply
IsRefused-wide before mid after word reply on (inl r) = inl (record {
  read = IsLastRead-wide before mid after word _ on r.read;
  cause = subst (λ (c : Contents). IsAbsent c word.name (Rose before.faults after.faults)) on.kept
      (IsAbsent-wide mid.contents word.name (Rose mid.faults after.faults) (Rose before.faults after.faults) (Rose-wide before.faults mid.faults after.faults on.faults) r.cause);
  is = r.is;
})
IsRefused-wide before mid after word reply on (inr (inl r)) = inr (inl (record {
  read = IsLastRead-wide before mid after word _ on r.read;
  cause = Rose-wide before.faults mid.faults after.faults on.faults r.cause;
  is = r.is;
}))
IsRefused-wide before mid after word reply on (inr (inr r)) = inr (inr (record {
  read = IsLastRead-wide before mid after word _ on r.read;
  taken = r.taken;
  cause = subst (λ (c : Contents). IsOver c word.name word.limit) on.kept r.cause;
  is = r.is;
}))

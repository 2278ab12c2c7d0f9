use Rattle.std.proofs.Common.{Err, Ok, subst}
use Rattle.packet_replay.specs.declared.faults.StepFault.TheVariants.{Label, Frame as NoFrame, Full, NoMemory}
use Rattle.packet_replay.specs.Carried.{Carried}
use Rattle.packet_replay.specs.Conditions.{Fits, HasRoom, IsRefused}
use Rattle.packet_replay.proofs.Refusing.{exactly, next_refused, next_taken}
use Rattle.packet_replay.proofs.replay.Replay.step.Goals as goal

-- The first condition that fails

pub returns-in-Err-clause-next : goal.returns-in-Err-clause-next
returns-in-Err-clause-next c v s has =
    let refused = subst (λ (s : Carried). IsRefused c.args.inventory.now s.room s.unit c.args.hop.now c.in-Err.fault) c.self.view_is c.in-Err.ensures.err.0 in
    next_refused c.args.inventory.now c.args.self.now.room c.args.self.now.unit c.args.hop.now c.in-Err.fault refused v s has

pub returns-in-Err-clause-label : goal.returns-in-Err-clause-label
returns-in-Err-clause-label c =
    let refused = subst (λ (s : Carried). IsRefused c.args.inventory.now s.room s.unit c.args.hop.now c.in-Err.fault) c.self.view_is c.in-Err.ensures.err.0 in
    exactly c.args.inventory.now c.args.self.now.room c.args.self.now.unit c.args.hop.now Label (λ e. cc) (Err c.in-Err.fault) refused

pub returns-in-Err-clause-frame : goal.returns-in-Err-clause-frame
returns-in-Err-clause-frame c =
    let refused = subst (λ (s : Carried). IsRefused c.args.inventory.now s.room s.unit c.args.hop.now c.in-Err.fault) c.self.view_is c.in-Err.ensures.err.0 in
    exactly c.args.inventory.now c.args.self.now.room c.args.self.now.unit c.args.hop.now NoFrame (λ e. cc) (Err c.in-Err.fault) refused

pub returns-in-Err-clause-full : goal.returns-in-Err-clause-full
returns-in-Err-clause-full c =
    let refused = subst (λ (s : Carried). IsRefused c.args.inventory.now s.room s.unit c.args.hop.now c.in-Err.fault) c.self.view_is c.in-Err.ensures.err.0 in
    exactly c.args.inventory.now c.args.self.now.room c.args.self.now.unit c.args.hop.now Full (λ e. cc) (Err c.in-Err.fault) refused

-- Want of memory

pub returns-in_default-clause-label : goal.returns-in_default-clause-label
returns-in_default-clause-label c =
    let way = c.in-Ok.ensures.ok in
    let fits = subst (λ (s : Carried). Fits c.args.inventory.now s.unit c.args.hop.now way.0) c.self.view_is way.2 in
    let has = subst (λ (s : Carried). HasRoom s.room s.unit c.args.hop.now) c.self.view_is way.3 in
    exactly c.args.inventory.now c.args.self.now.room c.args.self.now.unit c.args.hop.now Label (λ e. cc) (Err NoMemory) (way.0, fits, has)

pub returns-in_default-clause-frame : goal.returns-in_default-clause-frame
returns-in_default-clause-frame c =
    let way = c.in-Ok.ensures.ok in
    let fits = subst (λ (s : Carried). Fits c.args.inventory.now s.unit c.args.hop.now way.0) c.self.view_is way.2 in
    let has = subst (λ (s : Carried). HasRoom s.room s.unit c.args.hop.now) c.self.view_is way.3 in
    exactly c.args.inventory.now c.args.self.now.room c.args.self.now.unit c.args.hop.now NoFrame (λ e. cc) (Err NoMemory) (way.0, fits, has)

-- The unit takes the hop

pub returns-clause-next : goal.returns-clause-next
returns-clause-next c v s has =
    let way = c.in-Ok.ensures.ok in
    let fits = subst (λ (s : Carried). Fits c.args.inventory.now s.unit c.args.hop.now way.0) c.self.view_is way.2 in
    next_taken c.args.inventory.now c.args.self.now.room c.args.self.now.unit c.args.hop.now way.0 fits c.advance.new.self.unit (c.in-Ok-advance.ensures.ok way.0 way.1) v s

pub returns-clause-label : goal.returns-clause-label
returns-clause-label c =
    let way = c.in-Ok.ensures.ok in
    let fits = subst (λ (s : Carried). Fits c.args.inventory.now s.unit c.args.hop.now way.0) c.self.view_is way.2 in
    let has = subst (λ (s : Carried). HasRoom s.room s.unit c.args.hop.now) c.self.view_is way.3 in
    exactly c.args.inventory.now c.args.self.now.room c.args.self.now.unit c.args.hop.now Label (λ e. cc) (Ok tt) (way.0, fits, has)

pub returns-clause-frame : goal.returns-clause-frame
returns-clause-frame c =
    let way = c.in-Ok.ensures.ok in
    let fits = subst (λ (s : Carried). Fits c.args.inventory.now s.unit c.args.hop.now way.0) c.self.view_is way.2 in
    let has = subst (λ (s : Carried). HasRoom s.room s.unit c.args.hop.now) c.self.view_is way.3 in
    exactly c.args.inventory.now c.args.self.now.room c.args.self.now.unit c.args.hop.now NoFrame (λ e. cc) (Ok tt) (way.0, fits, has)
